pub mod StoresOf
mod SmallNumbers
pub mod SameStores
mod ClassesAfter
mod RoundedClasses
mod BehindRules
mod FullCommon
mod JoinedStores
mod NoFacts
mod ClosedTests
mod KnownStores
mod WholeStores
pub mod OwnFacts
mod WeakerCommon
mod GrownTables
mod TablesInTurn
mod MadeStores
mod OverInts
mod LessInOrders
mod OrdersNames
