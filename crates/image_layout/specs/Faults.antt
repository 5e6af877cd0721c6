-- When codes have no image.
use Rattle.std.specs.Prelude.{◌≡◌, ◌<◌}
use Rattle.ir_core.specs.declared.module.Module.{Module}
use Rattle.elf_object.specs.declared.image.TheConstants.{LARGEST_TEXT}
use Rattle.image_layout.specs.declared.faults.ImageFault.{ImageFault}
use Rattle.image_layout.specs.declared.faults.ImageFault.TheVariants as fault
use Rattle.image_layout.specs.Addresses.{Codes}
use Rattle.image_layout.specs.Image.{text_size}

-- the text would have more bytes than the largest
abbrev pub IsRefused : Module → Codes → ImageFault → Type 0
IsRefused m codes (fault.TooLarge bytes) = (LARGEST_TEXT < text_size m codes) × (bytes ≡ text_size m codes)
IsRefused m codes fault.NoMemory = Unit {0}
