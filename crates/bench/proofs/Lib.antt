pub mod FivesTold
pub mod NotedCells
pub mod GrantedNotes
