-- The image of a module's codes: the text, the data and the symbols of its object.
use Rattle.std.specs.Prelude.{ℕ, ◌*◌, List, ◌++◌, length}
use Rattle.std.specs.List.{flat_map}
use Rattle.oi_base.specs.declared.ids.FuncId.{FuncId}
use Rattle.ir_core.specs.declared.module.Module.{Module}
use Rattle.ir_core.specs.Constants.{global_memory}
use Rattle.ir_core.specs.Source.{main_number}
use Rattle.rv_isa.specs.Memory.{text_start}
use Rattle.elf_object.specs.Image.{Parts, loaded_segments}
use Rattle.rv_select.specs.declared.item.Item.{Item}
use Rattle.rv_select.specs.Linked.{linked, stub}
use Rattle.rv_select.specs.Stands.{Object}
use Rattle.rv_select.specs.Texts.{bytes_of}
use Rattle.image_layout.specs.Addresses.{Codes, link_of}
use Rattle.image_layout.specs.DataBytes.{bytes_from}
use Rattle.image_layout.specs.Symbols.{function_symbols, global_symbols, local_first}

-- the items of a function's code
abbrev pub items_of : FuncId × List Item → List Item
items_of c = c.1

-- the items of the text: the stub, and the codes one after another
abbrev pub text_items : Module → Codes → List Item
text_items m codes = stub (main_number m) ++ flat_map items_of codes

-- the size of the text in bytes
abbrev pub text_size : Module → Codes → ℕ
text_size m codes = 4 * length (text_items m codes)

unfoldable pub image : Module → Codes → Parts
image m codes = record {
  text = bytes_of (linked (link_of m codes) text_start (text_items m codes));
  data_bytes = bytes_from (link_of m codes) 0 (global_memory m);
  symbols = local_first (function_symbols m (link_of m codes) codes ++ global_symbols m (link_of m codes) 0 m.globals);
}

-- the object that is loaded of it
abbrev pub object : Module → Codes → Object
object m codes = record { segments = loaded_segments (image m codes); link = link_of m codes }
