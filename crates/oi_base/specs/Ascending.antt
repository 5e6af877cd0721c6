-- Lists of sites in the order of their numbers.
use Rattle.std.specs.Prelude.{ℕ, ◌<◌, List, length, slice_index_or}
use Rattle.oi_base.specs.declared.ids.SiteId.{SiteId}

-- the sites rise, so none comes twice
abbrev pub IsAscending : List SiteId → Type 0
IsAscending sites = (i j : ℕ) (d : SiteId) → i < j → j < length sites → let a = slice_index_or sites i d in let b = slice_index_or sites j d in a.0 < b.0
