-- However a stream is cut, its runs are those of the whole. Assumes nothing.
use Rattle.std.proofs.Common.{◌≡◌, ℕ, List, [], ◌∷◌, ◌++◌, sym, ap, ◌∙◌, subst, append_assoc, append-nil}
use Rattle.std.specs.List.{flat_map}
use Rattle.samples.specs.Runs.{rolled, Minimal}
use Rattle.samples.specs.Stream.{extended, handed_over, AnyCut, RunsAreExtended}
use Rattle.samples.proofs.Rolled.{rolled-gives}
use Rattle.samples.proofs.Fewest.{rolled-minimal}

handed_is : (ss : List ℕ) (ps : List (List ℕ)) → handed_over (rolled ss) ps ≡ rolled (ss ++ flat_map (λ p. p) ps)
handed_is ss [] = ap rolled (sym (append-nil ss))
handed_is ss (p ∷ ps) =
    ap (λ xs. handed_over (rolled (xs ++ p)) ps) (rolled-gives ss) ∙ handed_is (ss ++ p) ps ∙ ap rolled (append_assoc ss p (flat_map (λ q. q) ps))

goes_on : (before after piece : List ℕ) → after ≡ before ++ piece → rolled after ≡ extended (rolled before) piece
goes_on before after piece h = ap rolled (h ∙ ap (λ ss. ss ++ piece) (sym (rolled-gives before)))

pub runs_are_extended : RunsAreExtended
runs_are_extended = (goes_on, λ before after piece h. goes_on before.samples after.samples piece h)

pub any_cut : AnyCut
any_cut ps = (handed_is [] ps, subst (Minimal (flat_map (λ p. p) ps)) (sym (handed_is [] ps)) (rolled-minimal (flat_map (λ p. p) ps)))
