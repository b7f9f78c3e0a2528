use Rattle.std.proofs.Common.{rules, ℕ, List, map, string_bytes}
use Rattle.reg_session.proofs.PutFiles.{Puts, put_tells}
use Rattle.reg_session.proofs.list_shelf.ListShelfShelf.put.Goals as goal

pub returns-clause-tells : goal.returns-clause-tells
returns-clause-tells c =
    let after : List (List ℕ × List ℕ) = map (λ file. (string_bytes file.0, file.1.items)) c.put_bytes.new.files.items in
    let puts : Puts c.args.self.now.files after c.args.name.now c.args.bytes.now c.match-put_bytes.result = search rules in
    put_tells c.args.self.now.files after c.args.name.now c.args.bytes.now c.match-put_bytes.result puts
