pub mod RowIsStored
pub mod RowsAreLaid
pub mod PlacesAreLaid
pub mod OpeningIsTable
