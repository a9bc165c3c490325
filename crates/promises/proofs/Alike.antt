-- Tables with equal declarations and equal strings are rewritten alike.
use Rattle.std.proofs.Common.{◌≡◌, ℕ, ◌+◌, true, false, not, ◌++◌, length, sym, ap, ◌∙◌, arith, length-append}
use Rattle.std.proofs.lemmas.Bool.{and_parts, and_from, ltb-true, lt-ltb, leb-true, le-leb, cond-false, not_from_true}
use Rattle.order.specs.Order.{Order}
use Rattle.layout.specs.Refusals.{accepted, refused}
use Rattle.meaning.specs.Table.{Table, no_table, holds, text}
use Rattle.meaning.specs.File.{file, header, type_part, type_bytes}
use Rattle.meaning.proofs.Over.{take_over, length_over}
use Rattle.rewriting.specs.Requests.{Request}
use Rattle.rewriting.specs.Rules.{State, begun}
use Rattle.rewriting.specs.Rewriting.{tallied, job, ended, with_rewritten}
use Rattle.promises.specs.Lasting.{encoding, SameRequest, RewrittenAlike}
use Rattle.promises.proofs.States.{length_turns}
use Rattle.promises.proofs.Passed.{Passed, room_passed, when_accepted}
use Rattle.promises.proofs.Whole.{bytes_length}

same_request : (p q : Request) → SameRequest p q → p ≡ q
same_request p q s = λ i. record { sections = s.sections i; symbols = s.symbols i; names = s.names i; grants = λ f. s.grants f i }

module _ (t : Table) (q : Request) (p : Passed t q) where
  -- the strings, and those that are new behind them
  pub text_rewritten : text (with_rewritten t (ended (job t q))) ≡ text t ++ (ended (job t q)).added
  text_rewritten = take_over t.strings (ended (job t q)).added t.area (leb-true t.strings (length t.area) (and_parts _ _ p.held).1)

  pub held_rewritten : holds (with_rewritten t (ended (job t q))) ≡ true
  held_rewritten =
      let s = ended (job t q) in
      let room = room_passed t s p.room in
      and_from _ _
      (lt-ltb 0 (length (s.done ++ s.made)) (omega (arith, length-append s.done s.made, length_turns (job t q) begun t.decls, ltb-true 0 (length t.decls) (and_parts _ _ p.held).0)))
      (le-leb (t.strings + length s.added) (length (with_rewritten t s).area) (omega (arith, length_over t.strings s.added t.area room.area, room.area)))

-- a table that holds something is encoded
pub encoding_held : (o : Order) (t : Table) → holds t ≡ true → encoding o t ≡ accepted (file o t)
encoding_held o t h = cond-false (not (holds t)) (refused no_table) (accepted (file o t)) (not_from_true (holds t) h)

pub same_encoding : (o : Order) (t u : Table) → holds t ≡ true → holds u ≡ true → t.decls ≡ u.decls → text t ≡ text u → encoding o t ≡ encoding o u
same_encoding o t u h k d x =
    let strings : t.strings ≡ u.strings = sym (bytes_length t h) ∙ ap length x ∙ bytes_length u k in
    let whole : file o t ≡ file o u = λ i. header o (type_bytes (d i)) (strings i) ++ type_part o (d i) ++ x i in
    encoding_held o t h ∙ ap accepted whole ∙ sym (encoding_held o u k)

pub rewritten_alike : (t u : Table) → t.decls ≡ u.decls → text t ≡ text u → RewrittenAlike t u
rewritten_alike t u d x p q n m same e e' =
    let a = when_accepted t p n e in
    let b = when_accepted u q m e' in
    let jobs : job t p ≡ job u q = λ i. record { decls = d i; bytes = x i; request = same_request p q same i } in
    let states : ended (job t p) ≡ ended (job u q) = ap ended jobs in
    let later_decls : (with_rewritten t (ended (job t p))).decls ≡ (with_rewritten u (ended (job u q))).decls = ap (λ (s : State). s.done ++ s.made) states in
    let later_text : text (with_rewritten t (ended (job t p))) ≡ text (with_rewritten u (ended (job u q))) =
    text_rewritten t p a.passed ∙ (λ i. x i ++ (states i).added) ∙ sym (text_rewritten u q b.passed) in (
      a.tallies ∙ ap tallied states ∙ sym b.tallies,
      λ o. ap (encoding o) a.later_is ∙
          same_encoding o (with_rewritten t (ended (job t p))) (with_rewritten u (ended (job u q))) (held_rewritten t p a.passed) (held_rewritten u q b.passed) later_decls later_text ∙
          sym (ap (encoding o) b.later_is),
    )

-- a table that holds nothing is not rewritten
pub nothing_rewritten : (t u : Table) → holds t ≡ false → RewrittenAlike t u
nothing_rewritten t u none p q n m same e e' =
    let held = (when_accepted t p n e).passed.held in
    absurd (let z : ◌≡◌ {A = ℕ} 0 1 = cc in omega arith)
