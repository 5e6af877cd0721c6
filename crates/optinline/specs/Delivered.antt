-- What a build that is done leaves on a desk: an object that does what the module says, of the least size.
use Rattle.std.specs.Prelude.{◌≡◌, ℕ, ◌≤◌, ◌<◌, List, [], length, Some, All}
use Rattle.std.specs.FinMap as finite
use Rattle.oi_base.specs.declared.ids.SiteId.{SiteId}
use Rattle.oi_world.specs.Desk.{Files}
use Rattle.ir_core.specs.declared.module.Module.{Module}
use Rattle.ir_core.specs.Source.{src}
use Rattle.rv_isa.specs.Isa.{run}
use Rattle.rv_isa.specs.Refines.{Refines}
use Rattle.elf_object.specs.Image.{Parts, IsImage, HasWords, loaded_segments}
use Rattle.elf_object.specs.File.{elf}
use Rattle.frame_layout.specs.Frame.{frame}
use Rattle.decisions.specs.declared.maps.Label.{Label}
use Rattle.decisions.specs.Maps.{sites_of}
use Rattle.decisions.specs.Text.{text_of}
use Rattle.ir_core.specs.Valid.{IsValid}
use Rattle.ir_reader.specs.Refusals.{ReadsWithin}
use Rattle.optinline.specs.Words.{Words, command_of}
use Rattle.optinline.specs.Object.{main_body, size}
use Rattle.optinline.specs.Answer.{certificate}

-- ---- maps

-- the candidate sites of a module: what is built has no calls, so there are none
abbrev pub candidates : Module → List SiteId
candidates m = []

-- a label for each candidate site
abbrev pub IsMapOver : Module → List (SiteId × Label) → Type 0
IsMapOver m map = sites_of map ≡ candidates m

-- the bytes of the text under a map: without candidates it is that of the one lowering
abbrev pub size_under : Module → List (SiteId × Label) → ℕ
size_under m map = size m

-- no map gives less
abbrev pub IsLeast : Module → List (SiteId × Label) → Type 0
IsLeast m map = (other : List (SiteId × Label)) → IsMapOver m other → size_under m map ≤ size_under m other

-- ---- objects

-- An object does what a module says: its bytes are the ELF file of this image, and the run of what is loaded of it refines
-- the run of the module, in both directions, on every input of bytes. No frame is larger than the largest.
pub record DoesAs (m : Module) (largest : ℕ) (object : List ℕ) (image : Parts) : Type 0 where
  pub file : object ≡ elf image
  pub bounds : IsImage image
  pub words : All HasWords image.symbols
  pub refines : (input : List ℕ) → All (λ (b : ℕ). b < 256) input → Refines largest (src m input) (run (loaded_segments image) input)

-- The words are a build of the text of a valid module. OBJECT does what the module says, and its text has the size of
-- the map that DECISIONS holds; no map gives less; and CERT is the certificate that states it.
pub record Delivers (words : List (List ℕ)) (before after : Files) : Type 0 where
  pub build : Words
  pub bytes : List ℕ
  pub «module» : Module
  pub object : List ℕ
  pub image : Parts
  pub map : List (SiteId × Label)
  pub command : command_of words ≡ Some build
  pub file : finite.get before build.«module» ≡ Some bytes
  pub read : ReadsWithin bytes «module»
  pub valid : IsValid «module»
  pub object_file : finite.get after build.object ≡ Some object
  pub does : DoesAs «module» (frame (main_body «module»)) object image
  pub text : length image.text ≡ size_under «module» map
  pub over : IsMapOver «module» map
  pub decisions_file : finite.get after build.decisions ≡ Some (text_of map)
  pub least : IsLeast «module» map
  pub certificate_file : finite.get after build.cert ≡ Some (certificate «module»)
