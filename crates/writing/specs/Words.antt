-- What a word is.
pub use Rattle.lexer.specs.Bytes.{is_word}
