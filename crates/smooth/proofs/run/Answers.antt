-- What is read is the front of the input, which has the report of the whole.
use Rattle.std.proofs.Common.{◌≡◌, sym, ◌∙◌, ap, subst, ℕ, suc, List, length, take, Result, Ok, Err, Option, None, Some, IfOk, OnOk, IfSome}
use Rattle.std.specs.Io.KnownBytes.{Appends}
use Rattle.meaning.specs.Limits.{max_job}
use Rattle.meaning.specs.Program.{program}
use Rattle.theory.specs.Programs.{program_front}
use Rattle.encoding.specs.Append.{Appended}
use Rattle.smooth.proofs.run.Goals as goal

told : {T E A B : Type 0} (r : Result T E) → (A → B) → OnOk r A → OnOk r B
told (Ok x) f a = f a
told (Err e) f a = tt

whole : (given held grown : Option (List ℕ)) (room s out : List ℕ) (n size end : ℕ) → suc max_job ≡ size → IfSome given (λ xs. take n room ≡ take size xs) → Appended s 0 (program (take n room)) out end → Appends held grown (take end out) → IfSome given (λ xs. Appends held grown (program xs))
whole None held grown room s out n size end l e p a = tt
whole (Some xs) held grown room s out n size end l e p a = subst (Appends held grown) (p.front ∙ ap program e ∙ ap (λ k. program (take k xs)) (sym l) ∙ program_front xs) a

pub returns : goal.returns
returns g c =
    let read = c.in_ok-n.ensures.value in
    let bytes = subst (λ r. IfOk r (λ n. IfSome (g.R.Read.remaining c.args.from.now) (λ xs. take n c.read_front.new.room ≡ take (length c.input_buffer-input.result) xs))) read c.read_front.ensures.bytes in
    told c.print.result (whole _ _ _ _ _ _ _ _ _ c.input_buffer-input.ensures bytes c.report-end.ensures) c.print.ensures
