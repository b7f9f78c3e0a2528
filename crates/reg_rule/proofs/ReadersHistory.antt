-- For readers: the rows of all seats are one history, by the rule.
use Rattle.std.proofs.Common.{ℕ, List, Some, sym, ap, ◌∙◌}
use Rattle.std.proofs.lemmas.List.FromFn.{length-map-range_with_len}
use Rattle.reg_rule.specs.declared.view.Key.{Key}
use Rattle.reg_rule.specs.declared.view.View.{View}
use Rattle.reg_rule.specs.ReadersHistory.{AccountsStand}
use Rattle.reg_rule.specs.inner.World.{World}
use Rattle.reg_rule.specs.inner.Rule.{Inv}
use Rattle.reg_rule.proofs.ReadersSessions.{a_seat}
use Rattle.reg_rule.proofs.AccountsShared.{by_session, session_there, shares}

module _ (key : Key) (m : ℕ → ℕ → ℕ) (w : World) (views : List View) (i : Inv key m w views) where
  -- the sentence on accounts
  pub accounts_stand : AccountsStand key views w.log
  accounts_stand = record {
    accounts = by_session key.sizes.callers w.accounts;
    shared = shares key w.log w.accounts i.log.short i.accounts;
    own = λ seat k v a at there. let o = i.owns seat v at k a there in session_there key.sizes.callers w.accounts a.number o.below ∙ ap Some o.rows_are;
    all = length-map-range_with_len w.accounts 0 key.sizes.callers;
    a_seat = λ n low. a_seat key m w views i n low;
    one_seat = λ seat other k j v u a b at there at' there' same.
        let owners = sym (i.owns seat v at k a there).owner_is ∙ (ap w.owner same ∙ (i.owns other u at' j b there').owner_is) in
        (ap (λ (x : ℕ × ℕ). x.0) owners, ap (λ (x : ℕ × ℕ). x.1) owners);
    seen = λ seat k j v a row at there row_there. (i.rows seat v at).below k j a row there row_there;
  }
