pub mod LookLaws
pub mod PayLaws
pub mod StageLaws
pub mod RemapLaws
pub mod ReactionLaws
pub mod DropLaws
pub mod FileLaws
