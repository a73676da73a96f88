-- The text of an answer, of a number, and of the lines of the closing report.
pub mod Texts
pub mod Report
