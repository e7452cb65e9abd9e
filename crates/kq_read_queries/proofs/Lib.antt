mod Deeper
pub mod DepthLaws
pub mod FreeLaws
pub mod OperatorLaws
pub mod PartLaws
pub mod PlaceLaws
pub mod QueryLaws
pub mod SourceLaws
pub mod TabularLaws
pub mod UnionLaws
pub mod Following
