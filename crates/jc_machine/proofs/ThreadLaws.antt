-- Threads by their numbers.
use Rattle.std.proofs.Common.{◌≡◌, ℕ, zero, suc, ◌+◌, ◌<◌, ◌≤◌, List, [], ◌∷◌, ◌++◌, length, take, add-one, map, Some, refl, ap, ◌∙◌, arith, slice_get}
use Rattle.std.proofs.Common.{slice_set}
use Rattle.jc_programs.specs.declared.run_end.End.{End}
use Rattle.jc_programs.specs.declared.run_end.End.TheVariants as ends
use Rattle.jc_machine_model.specs.CaseEnds.{end_of}
use Rattle.jc_machine.specs.Threads.{ThreadFrames, thread_of, threads_of}

pub length-threads_of : (es : List End) (stacks : List ThreadFrames) → length es ≤ length stacks → length (threads_of es stacks) ≡ length es
length-threads_of [] stacks few = refl
length-threads_of (e ∷ es) [] few = absurd (omega arith)
length-threads_of (e ∷ es) (f ∷ stacks) few = ap suc (length-threads_of es stacks (omega arith))

pub thread_at : (es : List End) (stacks : List ThreadFrames) (t : ℕ) (e : End) (f : ThreadFrames) → slice_get es t ≡ Some e → slice_get stacks t ≡ Some f
    → slice_get (threads_of es stacks) t ≡ Some (thread_of e f)
thread_at [] stacks t e f es_at at = absurd (cc)
thread_at (x ∷ es) [] t e f es_at at = absurd (cc)
thread_at (x ∷ es) (y ∷ stacks) zero e f es_at at = let P = thread_of x in cc
thread_at (x ∷ es) (y ∷ stacks) (suc t) e f es_at at = thread_at es stacks t e f es_at at

pub threads_of-set : (es : List End) (stacks : List ThreadFrames) (t : ℕ) (e : End) (f : ThreadFrames) → t < length es → length es ≤ length stacks
    → threads_of (slice_set es t e) (slice_set stacks t f) ≡ slice_set (threads_of es stacks) t (thread_of e f)
threads_of-set [] stacks t e f less few = absurd (omega arith)
threads_of-set (x ∷ es) [] t e f less few = absurd (omega arith)
threads_of-set (x ∷ es) (y ∷ stacks) zero e f less few = refl
threads_of-set (x ∷ es) (y ∷ stacks) (suc t) e f less few = ap (λ ts. thread_of x y ∷ ts) (threads_of-set es stacks t e f (omega arith) (omega arith))

end_of-thread_of : (e : End) (f : ThreadFrames) → end_of (thread_of e f) ≡ e
end_of-thread_of ends.Running f = refl
end_of-thread_of ends.Stuck f = refl
end_of-thread_of (ends.Returned v) f = refl
end_of-thread_of (ends.Threw c) f = refl

-- how the threads stand
pub ends_are : (es : List End) (stacks : List ThreadFrames) → length es ≤ length stacks → map end_of (threads_of es stacks) ≡ es
ends_are [] stacks few = refl
ends_are (e ∷ es) [] few = absurd (omega arith)
ends_are (e ∷ es) (f ∷ stacks) few = let one = end_of-thread_of e f in let more = ends_are es stacks (omega arith) in cc

-- one thread more
pub threads_of-more : (es : List End) (stacks : List ThreadFrames) (k : ℕ) (e : End) (f : ThreadFrames) → k < length es → k < length stacks
    → threads_of (take (k + 1) (slice_set es k e)) (slice_set stacks k f) ≡ threads_of (take k es) stacks ++ thread_of e f ∷ []
threads_of-more es stacks k e f less in_stacks =
    ap (λ n. threads_of (take n (slice_set es k e)) (slice_set stacks k f)) (add-one k) ∙ more es stacks k less in_stacks
  where
    more : (xs : List End) (ys : List ThreadFrames) (n : ℕ) → n < length xs → n < length ys
        → threads_of (take (suc n) (slice_set xs n e)) (slice_set ys n f) ≡ threads_of (take n xs) ys ++ thread_of e f ∷ []
    more [] ys n less in_ys = absurd (omega arith)
    more (x ∷ xs) [] n less in_ys = absurd (omega arith)
    more (x ∷ xs) (y ∷ ys) zero less in_ys = refl
    more (x ∷ xs) (y ∷ ys) (suc n) less in_ys = ap (λ ts. thread_of x y ∷ ts) (more xs ys n (omega arith) (omega arith))
