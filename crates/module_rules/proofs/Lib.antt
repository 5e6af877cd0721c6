pub mod Folds
pub mod Earliest
pub mod Faulty
pub mod Decided
pub mod At
pub mod Listing
pub mod Sets
pub mod Distinct
pub mod IntegerLaws
pub mod WalkLaws
pub mod InnerTypes
pub mod SameTypeLaws
mod InitLevels
pub mod InitLaws
mod StructNames
mod UseLaws
mod Reaching
mod TypeGraph
mod TypeNameLaws
mod InParts
mod MainLaws
mod AlignLaws
mod SizeLevels
pub mod LaidUses
mod SizeLaws
mod SizeUses
mod SizePlaces
mod TypeLevels
mod ConstLevels
mod TargetLaws
mod SymbolLaws
mod NameSums
mod TotalLaws
pub mod RulesDecided
