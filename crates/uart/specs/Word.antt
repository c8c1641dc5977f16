-- What is said of a word. Assumes nothing: these are definitions.
use Rattle.std.specs.Prelude.{ℕ, List, ◌++◌, codes, decimal}
use Rattle.uart.specs.declared.words.Word.{Word}
use Rattle.uart.specs.declared.words.Word.TheVariants.{Byte, Broken}

abbrev pub word_text : Word → List ℕ
word_text (Byte v) = codes "byte " ++ decimal v
word_text (Broken v) = codes "broken " ++ decimal v
