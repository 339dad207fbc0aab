pub mod QuietSearches
