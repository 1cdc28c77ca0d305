-- Laws of the fit: the columns listed, the matrix and its entries, the box of the answer, and the call in its parts.
pub mod Pasted
pub mod Listed
pub mod Steps
pub mod ByDegrees
pub mod FewColumns
pub mod MatrixRows
pub mod MatrixColumns
pub mod FitMatrix
pub mod ExponentLists
pub mod AnswerBox
pub mod FitSystems
pub mod FitAnswers
pub mod FitCalls
pub mod RoomLaws
