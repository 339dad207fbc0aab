pub mod Nearest
pub mod SearchCourses
pub mod SearchLawful
pub mod SearchLaws
pub mod Searches
