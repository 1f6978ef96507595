-- `script::call_at` meets its contract.
use Rattle.script.proofs.Places.{call_there}
use Rattle.script.proofs.call_at.Goals as goal

pub returns : goal.returns
returns c =
    let x = c.args in
    let there = call_there x.script.now _ x.at c.rest.ensures (c.call_of.ensures.value, c.call_of.ensures.fits) in
    record { value = there.0; fits = there.1 }
