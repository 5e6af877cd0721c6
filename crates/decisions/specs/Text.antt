-- The text of a map: one line for each candidate.
use Rattle.std.specs.Prelude.{ℕ, List, ◌++◌, flat_map, decimal, codes}
use Rattle.oi_base.specs.declared.ids.SiteId.{SiteId}
use Rattle.decisions.specs.declared.maps.Label.{Label}
use Rattle.decisions.specs.declared.maps.Label.TheVariants.{Keep, Inline}

-- how many numbers there are for sites: those of 32 bits
abbrev pub site_numbers : ℕ
site_numbers = 4294967296

abbrev pub word_of : Label → List ℕ
word_of Keep = codes "keep"
word_of Inline = codes "inline"

abbrev pub tail_of : Label → List ℕ
tail_of Keep = codes " keep\n"
tail_of Inline = codes " inline\n"

-- the line of a site: its number in decimal, a space, its label and a line feed
unfoldable pub line_of : SiteId × Label → List ℕ
line_of e = decimal e.0.0 ++ tail_of e.1

-- lines, in the order in which they stand here
abbrev pub text_of : List (SiteId × Label) → List ℕ
text_of lines = flat_map line_of lines
