use Rattle.inline_certificate.proofs.FaultLines.{has_room}
use Rattle.inline_certificate.proofs.map_lines.read_map.Goals as goal

pub fault_of_map-requires : goal.fault_of_map-requires
fault_of_map-requires c = let told = c.in-Err.ensures in has_room c.in-Err.fault c.args.candidates.now c.args.map_lines.now told.fault c.requires.short
