pub mod IdValues
pub mod Holders
pub mod TableHolders
pub mod ToldKeys
pub mod DueRoutes
pub mod KeptRibs
pub mod PlainPackets
pub mod Formats
pub mod SaidQueues
pub mod Together
pub mod HandedTexts
mod Lists
mod Accounts
mod Alike
mod Dones
mod Scanned
mod ComeAndGone
mod PartAndMeet
mod Found
mod Swept
mod InHand
mod FirstKeys
mod WalkSteps
mod NextKeys
mod WalkTables
pub mod ListFacts
pub mod RowsAt
pub mod MemberViews
pub mod Queued
pub mod Keeping
pub mod Stepping
pub mod Seats
pub mod Left
pub mod Lost
pub mod RowTests
pub mod SystemTests
pub mod Formatted
pub mod QueuedMany
pub mod Merged
pub mod Slowed
pub mod Quieted
pub mod WorkDue
pub mod MarkedPeers
pub mod FreshMembers
pub mod StateJobs
pub mod EvaluatedTurns
pub mod EventCases
pub mod TurnOthers
pub mod TurnNone
pub mod TurnKept
pub mod TurnStarts
pub mod TurnLeaves
pub mod TurnSplits
pub mod TurnRekeys
pub mod TurnGoes
pub mod TakeNames
pub mod TakeEntered
pub mod TakeCounted
pub mod TakeTurned
pub mod TakeDone
pub mod TakeDues
pub mod PacketDues
pub mod KeyLists
pub mod Reached
pub mod ChangeKeys
pub mod Touched
pub mod Walked
pub mod ByKeys
pub mod Retabled
pub mod OnePrefix
pub mod PrefixEvents
pub mod AllPrefixes
pub mod RowsEntered
pub mod FreshRows
pub mod Crosses
mod ClassSweeps
