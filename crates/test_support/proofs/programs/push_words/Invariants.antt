use Rattle.std.proofs.Common.{◌≡◌, ◌++◌, drop}
use Rattle.test_support.specs.Files.{bytes_of}
use Rattle.test_support.proofs.programs.push_words.Given as goal

abbrev pub invariant-loop-word : goal.invariant-loop-word
invariant-loop-word l = l.file.items ++ bytes_of (drop l.word-index l.words) ≡ l.fn.file.items ++ bytes_of l.words
