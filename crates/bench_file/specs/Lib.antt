-- Numbers as text and their reading (Text to NumberLaws), the layout of a file with examples, the reader from one byte to a whole input
-- (Steps to OneContent), the text of an answer in a buffer (Printed to AnswerLaws), and the number of the answer (Verdict, VerdictLaws).
pub mod Text
pub mod Columns
pub mod ColumnLaws
pub mod NumberLaws
pub mod Layout
pub mod Examples
pub mod Steps
pub mod StepLaws
pub mod Runs
pub mod HeadLines
pub mod HeadEnds
pub mod ValueLines
pub mod Standing
pub mod Reading
pub mod ReaderLaws
pub mod OneContent
pub mod Printed
pub mod PrintLaws
pub mod AnswerLaws
pub mod Verdict
pub mod VerdictLaws
