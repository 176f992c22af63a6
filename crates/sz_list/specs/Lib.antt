-- how the logic places a type that reaches itself through a list
pub mod formers
