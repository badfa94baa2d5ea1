pub mod Words
pub mod Jobs
pub mod Options
pub mod Pages
