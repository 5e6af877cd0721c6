-- Certificates and the texts that state them.
use Rattle.std.specs.Prelude.{◌≡◌, ◌<◌, ℕ, List, [], ◌∷◌, Option, Some, None}
use Rattle.oi_base.specs.declared.ids.FuncId.{FuncId}
use Rattle.decisions.specs.Maps.{sites_of}
use Rattle.decisions.specs.Text.{text_of}
use Rattle.decisions.specs.Reading.{HaveWords, IsTextOf}
use Rattle.inline_certificate.specs.declared.nodes.CertNode.{CertNode}
use Rattle.inline_certificate.specs.declared.nodes.CertNode.TheVariants.{Leaf, Branch, Split, Cut}
use Rattle.inline_certificate.specs.declared.certificates.Certificate.{Certificate}
use Rattle.inline_certificate.specs.Trees.{IsTreeIn, form_of}
use Rattle.inline_certificate.specs.Text.{text_with}

-- the text that is printed: the map's lines are ascending
abbrev pub certificate_text : Certificate → List ℕ
certificate_text c = text_with c.version c.text (text_of c.map) c.tree

-- the tree is one that the certificate's version has
abbrev pub HasTree : Certificate → Type 0
HasTree c = IsTreeIn (form_of c.version) c.tree

-- the bytes state the certificate; the map's lines may stand in any order
pub record IsCertificate (bytes : List ℕ) (c : Certificate) : Type 0 where
  pub map_lines : List ℕ
  pub lines : bytes ≡ text_with c.version c.text map_lines c.tree
  pub map : IsTextOf map_lines c.map
  pub tree : HasTree c

-- a number has 32 bits
abbrev pub IsWord : ℕ → Type 0
IsWord n = n < 4294967296

-- a version: 1 or 2
abbrev pub IsVersion : ℕ → Type 0
IsVersion version = (0 < version) × (version < 3)

abbrev pub IsValue : Option ℕ → Type 0
IsValue None = Unit {0}
IsValue (Some n) = IsWord n

abbrev pub AreFuncs : List FuncId → Type 0
AreFuncs [] = Unit {0}
AreFuncs (f ∷ fs) = IsWord f.0 × AreFuncs fs

-- each number of a node has 32 bits
abbrev pub IsNode : CertNode → Type 0
IsNode (Leaf v) = IsValue v
IsNode (Branch s) = IsWord s.0
IsNode (Split fs) = AreFuncs fs
IsNode (Cut v) = IsValue v

abbrev pub AreNodes : List CertNode → Type 0
AreNodes [] = Unit {0}
AreNodes (n ∷ ns) = IsNode n × AreNodes ns

-- each number of a certificate has 32 bits
pub record HasWords (c : Certificate) : Type 0 where
  pub text : IsWord c.text
  pub map : HaveWords (sites_of c.map)
  pub tree : AreNodes c.tree

-- both are the same certificate
pub record IsSame (c d : Certificate) : Type 0 where
  pub version : c.version ≡ d.version
  pub text : c.text ≡ d.text
  pub map : c.map ≡ d.map
  pub tree : c.tree ≡ d.tree
