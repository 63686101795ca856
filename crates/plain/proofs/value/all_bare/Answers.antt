-- `plain::value::all_bare` meets its contract: what std tests of each byte. Assumes nothing.
use borrow.Author.Rules.{rules}
use Rattle.std.specs.Prelude.{IsTrue, ◌↔◌}
use Rattle.std.specs.List.{AllPass}
use Rattle.syntax.specs.Strings.{is_bare}
use Rattle.plain.proofs.Values.{every_tested}
use Rattle.plain.proofs.value.all_bare.Goals as goal

pub returns : goal.returns
returns c = let h : IsTrue c.all.result ↔ AllPass is_bare c.args.value.now = search rules in every_tested _ _ _ h
