use Rattle.std.proofs.Common.{ℕ, Vec, Global, string_bytes}
use Rattle.reg_session.proofs.PutFiles.{put_at, put_last}
use Rattle.reg_session.proofs.list_shelf.put_bytes.Goals as goal

pub returns-in-Some-clause-put : goal.returns-in-Some-clause-put
returns-in-Some-clause-put c =
    put_at string_bytes (λ (bytes : Vec ℕ Global). bytes.items) c.deref.result.now c.args.files.now.items c.args.name.now c.args.bytes.now c.in_ok-copy.copy c.index_mut.result.now c.in-Some.place
    c.deref.ensures.value c.in-Some.ensures.found c.index_mut.ensures.value c.in_ok-copy.ensures.items

pub returns-in_ok-push-in-None-clause-put : goal.returns-in_ok-push-in-None-clause-put
returns-in_ok-push-in-None-clause-put c =
    put_last string_bytes (λ (bytes : Vec ℕ Global). bytes.items) c.deref.result.now c.args.files.now.items c.push.new.self.items c.args.name.now c.args.bytes.now c.in_ok-from_str-in-None.field-0 c.in_ok-copy.copy
    c.deref.ensures.value c.in-None.ensures.none c.in_ok-from_str-in-None.ensures.ok c.in_ok-copy.ensures.items c.in_ok-push-in-None.ensures.items
