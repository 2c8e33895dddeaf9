pub mod AloneInTree
pub mod LeafChanges
pub mod EditsOfLeaves
pub mod ActsAreSteps
pub mod StepsLeft
pub mod UnderWay
