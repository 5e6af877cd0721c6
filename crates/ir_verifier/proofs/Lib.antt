mod AllByPosition
mod CallLaws
mod CaseLaws
mod CaseWords
mod ConstantLaws
mod EntryLaws
mod KindLaws
mod Measured
mod NameLaws
mod OffsetLaws
pub mod OneVerdict
mod PhiLaws
mod PlainOperands
mod PositionLaws
mod PredecessorLaws
mod ReferenceLaws
mod ReferencesFound
mod SimpleRows
mod TypeLaws
mod TypesFound
mod ValueLaws
mod VerdictLaws
mod VerdictTold
pub mod VerdictDecided
