-- `rehearse::printing::last_words` meets its contract.
use Rattle.std.proofs.Common.{rules, ℕ, List, length, take, ◌++◌, ◌≡◌, ap, ◌∙◌}
use Rattle.laws.specs.Tray.{onto}
use Rattle.session.specs.declared.feed.Fed.{Fed}
use Rattle.session.specs.Session.{last_of}
use Rattle.closing.specs.Closing.{night_report}
use Rattle.rehearse.specs.Printed.{last_words}
use Rattle.rehearse.proofs.laws.Laws.{fed_fits, text_fits, text_front}
use Rattle.rehearse.proofs.printing.last_words.Goals as goal

pub slice_bounds-line-end : goal.slice_bounds-line-end
slice_bounds-line-end c = fed_fits c.last_line-fed.ensures

pub slice_bounds-put_both-end : goal.slice_bounds-put_both-end
slice_bounds-put_both-end c =
    let fits = fed_fits c.last_line-fed.ensures in search rules

pub slice_bounds-report-end : goal.slice_bounds-report-end
slice_bounds-report-end c = text_fits _ _ _ c.close-n.result c.close-n.ensures.used c.close-n.ensures.text

pub slice_bounds-put_both-end-2 : goal.slice_bounds-put_both-end-2
slice_bounds-put_both-end-2 c =
    let fits = text_fits _ _ _ c.close-n.result c.close-n.ensures.used c.close-n.ensures.text in search rules

pub returns : goal.returns
unfolding last_words
returns c =
    let p = c.put_both.ensures in
    let a = c.args in
    let l = c.last_line-fed in
    let k = c.close-n in
    let w = (last_of a.s a.post.now).state in
    let line : take l.result.used l.new.t ≡ w.text = text_front _ _ _ l.result.used (ap (λ (f : Fed). f.used) l.ensures.fed) l.ensures.text in
    let report : take k.result k.new.t ≡ night_report w.desk.plan w.night =
    text_front _ _ _ k.result k.ensures.used k.ensures.text
    ∙ ap (λ (f : Fed). night_report f.session.desk.plan f.session.night) l.ensures.fed in
    let v : take l.result.used l.new.t ++ take k.result k.new.t ≡ last_words a.s a.post.now =
    ap (λ (x : List ℕ). x ++ take k.result k.new.t) line ∙ ap (λ (x : List ℕ). w.text ++ x) report in
    record { used = p.0 ∙ ap length v; post = l.ensures.post; text = p.1 ∙ ap (λ (x : List ℕ). onto x a.t.now) v }
