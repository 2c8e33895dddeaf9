pub mod BookTurns
pub mod BooksGoOn
pub mod EachPlace
pub mod Offered
