-- Items that wait for no address.
use Rattle.rv_select.specs.declared.item.Item.{Item}
use Rattle.rv_select.specs.declared.item.Item.TheVariants.{Word}

abbrev pub IsWord : Item → Type 0
IsWord (Word i) = Unit {0}
IsWord i = ⊥
