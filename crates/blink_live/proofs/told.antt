pub mod PrefixesOfOneList
pub mod StatesOfKeys
pub mod EntriesAfterChanges
pub mod OwnersAreSeen
pub mod NotesKeepTable
pub mod LooksUpKeepTable
