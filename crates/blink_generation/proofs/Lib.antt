mod PartsOfThePool
mod ChangesOfMembers
mod RoomOfMembers
mod MembersComeBack
mod OperationsRest
mod OperationsStart
mod OperationsAreGivenUp
mod PendingsGoOn
pub mod PendingsAreSent
mod LooksOver
mod MembersDealt
pub mod PutsAreChanges
pub mod Offered
