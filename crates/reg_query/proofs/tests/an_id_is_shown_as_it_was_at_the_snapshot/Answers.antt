use Rattle.reg_query.proofs.tests.an_id_is_shown_as_it_was_at_the_snapshot.Goals as goal

pub show_at-last-requires-clause-opens : goal.show_at-last-requires-clause-opens
show_at-last-requires-clause-opens g c = let b = c.begin.ensures.begun in let k = b.0 in (k, (c.show_at-first.ensures.shown k b.2.opens.snapshot).opens)

pub show_at-below-requires-clause-opens : goal.show_at-below-requires-clause-opens
show_at-below-requires-clause-opens g c = let b = c.begin.ensures.begun in let k = b.0 in let first = c.show_at-first.ensures.shown k b.2.opens.snapshot in (k, (c.show_at-last.ensures.shown k first.opens.snapshot).opens)

pub show_at-above-requires-clause-opens : goal.show_at-above-requires-clause-opens
show_at-above-requires-clause-opens g c =
    let b = c.begin.ensures.begun in let k = b.0 in let first = c.show_at-first.ensures.shown k b.2.opens.snapshot in let last = c.show_at-last.ensures.shown k first.opens.snapshot in (k, (c.show_at-below.ensures.shown k last.opens.snapshot).opens)
