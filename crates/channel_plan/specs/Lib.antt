pub mod PlanText
pub mod Reading
pub mod Reader
pub mod Checked
pub mod Split
