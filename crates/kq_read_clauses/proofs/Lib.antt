pub mod AggregateLaws
pub mod CellLaws
pub mod CellTurns
pub mod ItemLaws
pub mod JoinLaws
pub mod ListLaws
pub mod SemicolonLaws
pub mod Following
