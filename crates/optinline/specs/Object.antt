-- The object of a module of which all is built: the code of the plain body of `main`, and its image.
use Rattle.std.specs.Prelude.{ℕ, List, [], ◌∷◌}
use Rattle.ir_core.specs.declared.flat.FlatBody.{FlatBody}
use Rattle.ir_core.specs.declared.module.Module.{Module}
use Rattle.ir_core.specs.Plain.{plain_program}
use Rattle.ir_core.specs.Source.{main_number}
use Rattle.elf_object.specs.File.{elf}
use Rattle.rv_select.specs.Code.{code, code_bytes}
use Rattle.rv_select.specs.Stands.{body_in}
use Rattle.image_layout.specs.Addresses.{Codes}
use Rattle.image_layout.specs.Image.{image, text_size}

abbrev pub main_body : Module → FlatBody
main_body m = body_in (plain_program m) (main_number m)

-- the codes of the functions: what is built has no other than `main`
abbrev pub main_codes : Module → Codes
main_codes m = (record { 0 = main_number m }, code (main_body m)) ∷ []

-- the sizes in bytes of the text, and of the functions' codes in it
abbrev pub size : Module → ℕ
size m = text_size m (main_codes m)

abbrev pub body_size : Module → ℕ
body_size m = code_bytes (main_body m)

-- the file of the object
abbrev pub object_file : Module → List ℕ
object_file m = elf (image m (main_codes m))
