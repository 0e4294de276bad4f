-- Two plans and three words, one after the other.
use Rattle.std.proofs.Common.{refl, [], ◌∷◌, ◌++◌}
use Rattle.calls_stream.specs.Words.{plan_words, taken_on}
use Rattle.calls_stream.proofs.inner.stream.Stream.raster.Goals as goal

pub returns : goal.returns
returns g c =
    let sides = c.in_ok-bound.bound ∷ c.in_ok-width.width ∷ c.in_ok-height.height ∷ [] in
    let down = plan_words c.in_ok-down.down in
    let left = g.R.Read.remaining c.plan.new.self.from in
    let last = g.R.Read.remaining c.word-3.new.self.from in
    taken_on _ left last (plan_words c.in_ok-across.across) (down ++ sides) c.in_ok-across.ensures
    (taken_on left (g.R.Read.remaining c.plan-2.new.self.from) last down sides c.in_ok-down.ensures
    (_, c.in_ok-bound.ensures, (_, c.in_ok-width.ensures, (_, c.in_ok-height.ensures, refl))))
