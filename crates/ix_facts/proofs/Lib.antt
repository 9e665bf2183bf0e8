pub mod Tests
pub mod Gives
pub mod BoundsHold
pub mod Worse
pub mod BoundsMonotone
pub mod FactLists
pub mod Members
pub mod Frame
pub mod ClosureLaws
pub mod RuleForms
pub mod ExactLaws
pub mod ClassLaws
pub mod OperatorBounds
pub mod RulesHold
pub mod OperationsHold
pub mod RulesMonotone
pub mod OperationsMonotone
pub mod FinishLaws
pub mod AfterLaws
pub mod TestLaws
pub mod ClaimLaws
pub mod RoundLaws
pub mod BoundLaws
pub mod SystemLaws
mod SameFacts
mod RowsAfter
mod RowsTests
mod RowsKnown
pub mod ShiftedWays
pub mod FormLaws
pub mod LengthLaws
pub mod PathOrders
pub mod SaidLaws
pub mod StoreLaws
pub mod SaidRules
pub mod SaidKept
pub mod SaidTables
pub mod ClosedStays
pub mod SplitLaws
pub mod SplitSound
pub mod StepLaws
pub mod StoresHold
pub mod StoreSamples
pub mod ClassesStay
pub mod RoundedStays
