-- The entry in limbo goes into the ring, step by step.
use Rattle.std.proofs.Common.{◌≡◌, ℕ, ◌+◌, ◌%◌, true, List, [], ◌∷◌, ◌++◌, append_assoc, replicate, Some, sym, refl, ap, ◌∙◌, subst}
use Rattle.reg_words.specs.declared.word.SweepWord.{SweepWord}
use Rattle.reg_rule.specs.declared.told.Told.TheVariants.{Sweeps}
use Rattle.reg_rule.specs.declared.view.Holding.{Holding}
use Rattle.reg_rule.specs.declared.view.View.{View}
use Rattle.reg_rule.specs.Conditions.{MayLoadPut, MayGive, MayStorePut, IsNextWord}
use Rattle.reg_rule.specs.Moves.{holder_did, on_holding, put_known, give_stored, put_stored, holding_of}
use Rattle.reg_sweep.specs.inner.Holders.{resting, in_limbo, IsWaiting, MayScan, scanned_to, found_free}

-- The holder has these notes after these steps.
abbrev pub Notes : View → List ℕ → Holding → View → Type 0
Notes v steps h w = w ≡ record v { holding = Some h; made = v.made ++ steps }

pub notes_more : (v w x : View) (steps : List ℕ) (h : Holding) (f : Holding → Holding) (kind : ℕ) → Notes v steps h w → x ≡ holder_did f w kind → Notes v (steps ++ kind ∷ []) (f h) x
notes_more v w x steps h f kind n told = told ∙ (ap (λ (z : View). holder_did f z kind) n ∙ (λ j. record v { holding = Some (f h); made = append_assoc v.made steps (kind ∷ []) j }))

module _ (place mark id entry : ℕ) (v : View) (waits : IsWaiting place mark id entry v) where
  abbrev h : Holding
  h = holding_of (in_limbo place mark)

  pub may_scan_mark : MayScan mark v
  may_scan_mark = record { h = h; holding = waits.holding; begins = (refl, refl); hazard_is = refl }

  -- the pins are free of the mark
  module _ (x : View) (free : x ≡ found_free v.key.sizes.callers v.key.sizes.callers v) where
    abbrev n : ℕ
    n = v.key.sizes.callers

    scanned : Notes v (replicate n 18) (scanned_to n h) x
    scanned = free ∙ (λ j. record v { holding = ap (on_holding (scanned_to n)) waits.holding j; made = v.made ++ replicate n 18 })

    pub may_load : MayLoadPut Sweeps x
    may_load = subst (MayLoadPut Sweeps) (sym scanned) (scanned_to n h, refl, refl)

    -- the count of entries put was loaded
    module _ (put : ℕ) (y : View) (loaded : y ≡ holder_did (put_known put) x 10) where
      known : Notes v (replicate n 18 ++ 10 ∷ []) (put_known put (scanned_to n h)) y
      known = notes_more v x y (replicate n 18) (scanned_to n h) (put_known put) 10 scanned loaded

      pub may_give : (at : ℕ) → at ≡ put % v.key.entries → MayGive at entry y
      may_give at at_is = subst (MayGive at entry) (sym known) (put_known put (scanned_to n h), put, id, refl, refl, refl, refl, at_is, waits.withdraws)

      -- the entry was stored
      module _ (z : View) (gave : z ≡ holder_did give_stored y 22) where
        given : Notes v ((replicate n 18 ++ 10 ∷ []) ++ 22 ∷ []) (give_stored (put_known put (scanned_to n h))) z
        given = notes_more v y z (replicate n 18 ++ 10 ∷ []) (put_known put (scanned_to n h)) give_stored 22 known gave

        pub may_raise : (new : ℕ) → new ≡ put + 1 → MayStorePut new z
        may_raise new new_is = subst (MayStorePut new) (sym given) (give_stored (put_known put (scanned_to n h)), put, refl, refl, refl, refl, refl, new_is, refl, waits.inside)

        -- the count was raised
        module _ (q : View) (raised : q ≡ holder_did put_stored z 22) where
          abbrev last : Holding
          last = put_stored (give_stored (put_known put (scanned_to n h)))

          paid : Notes v (((replicate n 18 ++ 10 ∷ []) ++ 22 ∷ []) ++ 22 ∷ []) last q
          paid = notes_more v z q ((replicate n 18 ++ 10 ∷ []) ++ 22 ∷ []) (give_stored (put_known put (scanned_to n h))) put_stored 22 given raised

          pub may_pass : (word : SweepWord) → word ≡ record (resting (place + 1)) { held = true } → (g : Holding) × (q.holding ≡ Some g) × IsNextWord q g word
          may_pass word is = (last, ap (λ (u : View). u.holding) paid, subst (IsNextWord q last) (sym is) (refl, refl, refl))
