use Rattle.std.proofs.Common.{true, false, List, ℕ, ◌∷◌, ◌≡◌}
use Rattle.fx_doc_drafts.proofs.Plain.{if_none, cut_behind}
use Rattle.fx_doc_drafts.proofs.ahead.behind_byte.Goals as goal

pub returns-in_err-behind-clause-none : goal.returns-in_err-behind-clause-none
returns-in_err-behind-clause-none c =
    if_none c.from_residual-in_err-behind.result ((behind : List ℕ) → c.args.text.now ≡ c.args.byte ∷ behind → ⊥)
    (λ behind e. let h : false ≡ true = (c.in_err-behind.ensures.variant.1 (cut_behind c.args.text.now behind c.args.byte c.requires c.utf8.text e)) in cc)
