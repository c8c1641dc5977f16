-- What is said of a failure: a refusal's number, its place, and what it means. Assumes nothing: these are definitions.
use Rattle.std.specs.Prelude.{ℕ, List, ◌++◌, codes, decimal}
use Rattle.samples.specs.declared.refusal.Refusal.{Refusal}
use Rattle.samples.specs.declared.refusal.Refusal.TheVariants.{Setting, Memory, Samples, Room, Text}
use Rattle.samples.specs.Refusal.{number_of, place_of}
use Rattle.formats.specs.declared.failure.Failure.{Failure}
use Rattle.formats.specs.declared.failure.Failure.TheVariants.{Memory as NoMemory, Refused}

-- what a refusal means for a text
abbrev pub meaning_of : Refusal → List ℕ
meaning_of (Setting p) = codes "this setting is out of its range; the first is setting 0"
meaning_of (Memory p) = codes "no reader leaves such a memory; the first number is number 0"
meaning_of (Samples p) = codes "this sample is above 65535; the first is sample 0"
meaning_of (Room p) = codes "too little room for what was read"
meaning_of (Text p) = codes "this line is not SAMPLE COUNT with a count of 1 to 65535; the first is line 0"

-- what is printed of a failure
abbrev pub message_of : Failure → List ℕ
message_of NoMemory = codes "out of memory"
message_of (Refused f) = codes "refused " ++ (decimal (number_of f) ++ (codes " at " ++ (decimal (place_of f) ++ (codes ": " ++ meaning_of f))))
