mod Depth
pub mod ExpressionLaws
pub mod LeadLaws
pub mod LevelLaws
pub mod NameLaws
pub mod PathLaws
pub mod PrimaryLaws
pub mod RelationLaws
pub mod SemicolonLaws
