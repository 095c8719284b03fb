pub mod AdditionLaws
