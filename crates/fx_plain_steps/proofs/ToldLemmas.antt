-- One line's telling behind the others.
use Rattle.std.proofs.Common.{◌≡◌, ℕ, List, [], ◌∷◌, ◌++◌, append_assoc, append-nil, add_assoc, add-zero, zero-add, ap, sym, ◌∙◌, refl}
use Rattle.fx_plain_steps.specs.Told.{Told, Totals, added, no_totals, texts_of, totals_of}

pub texts-snoc : (tolds : List Told) (told : Told) → texts_of (tolds ++ told ∷ []) ≡ texts_of tolds ++ told.text
unfolding texts_of
texts-snoc [] told = append-nil told.text
texts-snoc (one ∷ others) told =
    ap (λ (t : List ℕ). one.text ++ t) (texts-snoc others told) ∙ sym (append_assoc one.text (texts_of others) told.text)

added-none : (t : Totals) → added t no_totals ≡ added no_totals t
added-none t = rw (add-zero t.frames, add-zero t.area, add-zero t.notices, add-zero t.pixels, zero-add t.frames, zero-add t.area, zero-add t.notices, zero-add t.pixels) refl

added-assoc : (a b c : Totals) → added (added a b) c ≡ added a (added b c)
added-assoc a b c =
    rw (
      add_assoc a.frames b.frames c.frames,
      add_assoc a.area b.area c.area,
      add_assoc a.notices b.notices c.notices,
      add_assoc a.pixels b.pixels c.pixels,
    ) refl

pub totals-snoc : (tolds : List Told) (told : Told) → totals_of (tolds ++ told ∷ []) ≡ added (totals_of tolds) told.totals
unfolding totals_of
totals-snoc [] told = added-none told.totals
totals-snoc (one ∷ others) told =
    ap (λ (t : Totals). added one.totals t) (totals-snoc others told) ∙ sym (added-assoc one.totals (totals_of others) told.totals)
