-- The lines of runs, one after the other. Assumes nothing.
use Rattle.std.proofs.Common.{◌≡◌, ℕ, ◌+◌, ◌<◌, List, [], ◌∷◌, ◌++◌, length, get_or, take, ap, ◌∙◌, append-nil}
use Rattle.std.proofs.lemmas.List.{take_more}
use Rattle.std.proofs.lemmas.List.Concat.{flat_map-append}
use Rattle.samples.specs.declared.run.Run.{Run}
use Rattle.formats.specs.Text.{line_of, text_of}

-- one line more is written
pub text_more : (rs : List Run) (i : ℕ) (d : Run) → i < length rs → text_of (take (i + 1) rs) ≡ text_of (take i rs) ++ (line_of (get_or rs i d) ++ (10 ∷ []))
text_more rs i d h =
    ap text_of (take_more rs i d h) ∙ flat_map-append (λ r. line_of r ++ (10 ∷ [])) (take i rs) (get_or rs i d ∷ [])
    ∙ ap (λ l. text_of (take i rs) ++ l) (append-nil (line_of (get_or rs i d) ++ (10 ∷ [])))
