mod Begun
pub mod Lawful
mod Found
mod Drained
mod Streams
pub mod Tables
pub mod WantedTables
mod Fitting
mod Formats
mod NextPackets
mod MemberStreams
mod Again
mod StreamsInWorlds
mod Seated
mod Formatting
mod PeerLanes
pub mod Others
mod Lanes
mod Losing
mod AskedLanes
pub mod Groups
pub mod Keys
mod Pairs
mod Merging
mod SubgroupMembers
mod SubgroupMembersTurns
mod SubgroupMembersSteps
mod Parting
mod Asked
pub mod Retabling
pub mod Company
mod SetApart
mod OwnSubgroups
mod OwnSubgroupsTurned
mod PeerTurns
mod Turns
mod ChosenTurns
mod Events
mod AskedTurns
mod WorldStays
mod Histories
mod AskedSteps
mod SendableRoutes
mod Steps
mod Courses
mod Marks
mod LiveKeys
mod Evaluated
mod InAll
mod Simulating
mod AskedHistories
pub mod Speaks
pub mod WantedValues
pub mod TouchedKeys
pub mod NewTables
pub mod OneTurned
pub mod Dues
