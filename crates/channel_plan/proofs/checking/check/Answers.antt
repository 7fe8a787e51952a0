use Rattle.std.proofs.Common.{◌≡◌, ◌∙◌, [], Some, None, ap, subst, sym}
use Rattle.std.proofs.lemmas.Result.{err_from_is_err_and}
use Rattle.channel_plan.specs.Checked.{IsFaultOfRow, IsTable, first_clash, first_missing, channels_in, rows_fault}
use Rattle.channel_plan.proofs.Same.{fault-clash, fault-missing, fault-none, fault-row, same-clash, same-missing}
use Rattle.channel_plan.proofs.checking.check.Goals as goal

pub returns-in_err-table-clause-fault : goal.returns-in_err-table-clause-fault
returns-in_err-table-clause-fault c =
    let net = c.args.net.now in
    let rows = c.args.plan.now.rows.items in
    let p = err_from_is_err_and c.from_residual.result c.from_residual.ensures.1 in
    let told : IsFaultOfRow (rows_fault net [] rows) c.in_err-table.field-0.0 =
    subst (λ rs. IsFaultOfRow (rows_fault net [] rs) c.in_err-table.field-0.0) c.deref.ensures.value c.in_err-table.ensures.fault in
    rw (p.1, p.2) (fault-row net rows c.in_err-table.field-0.0 told)

pub returns-in-Some-clause-fault : goal.returns-in-Some-clause-fault
returns-in-Some-clause-fault c =
    let net = c.args.net.now in
    let rows = c.args.plan.now.rows.items in
    let table = c.in_ok-table.table.items in
    let good : rows_fault net [] rows ≡ None = subst (λ rs. rows_fault net [] rs ≡ None) c.deref.ensures.value c.in_ok-table.ensures.good in
    let is : IsTable net rows table = subst (λ rs. IsTable net rs table) c.deref.ensures.value c.in_ok-table.ensures.table in
    let found : first_missing net (channels_in table) ≡ Some c.in-Some.v = ap (λ t. first_missing net (channels_in t)) (sym c.deref-2.ensures.value) ∙
    sym c.missing.ensures ∙ c.in-Some.is in
    fault-missing net rows c.in-Some.v good (sym (same-missing net rows table is) ∙ found)

pub returns-in-Some-clash-clause-fault : goal.returns-in-Some-clash-clause-fault
returns-in-Some-clash-clause-fault c =
    let net = c.args.net.now in
    let rows = c.args.plan.now.rows.items in
    let table = c.in_ok-table.table.items in
    let good : rows_fault net [] rows ≡ None = subst (λ rs. rows_fault net [] rs ≡ None) c.deref.ensures.value c.in_ok-table.ensures.good in
    let is : IsTable net rows table = subst (λ rs. IsTable net rs table) c.deref.ensures.value c.in_ok-table.ensures.table in
    let all : first_missing net (channels_in table) ≡ None = ap (λ t. first_missing net (channels_in t)) (sym c.deref-2.ensures.value) ∙ sym c.missing.ensures ∙
    c.in_default.is in
    let found : first_clash net (channels_in table) ≡ Some (c.in-Some-clash.v, c.in-Some-clash.w) =
    ap (λ t. first_clash net (channels_in t)) (sym c.deref-3.ensures.value) ∙ sym c.clash.ensures ∙ c.in-Some-clash.is in
    fault-clash net rows c.in-Some-clash.v c.in-Some-clash.w good (sym (same-missing net rows table is) ∙
    all) (sym (same-clash net rows table c.in_ok-table.ensures.network is) ∙ found)

pub returns-clause-proper : goal.returns-clause-proper
returns-clause-proper c =
    let net = c.args.net.now in
    let rows = c.args.plan.now.rows.items in
    let table = c.in_ok-table.table.items in
    let good : rows_fault net [] rows ≡ None = subst (λ rs. rows_fault net [] rs ≡ None) c.deref.ensures.value c.in_ok-table.ensures.good in
    let is : IsTable net rows table = subst (λ rs. IsTable net rs table) c.deref.ensures.value c.in_ok-table.ensures.table in
    let all : first_missing net (channels_in table) ≡ None = ap (λ t. first_missing net (channels_in t)) (sym c.deref-2.ensures.value) ∙ sym c.missing.ensures ∙
    c.in_default.is in
    let none : first_clash net (channels_in table) ≡ None = ap (λ t. first_clash net (channels_in t)) (sym c.deref-3.ensures.value) ∙ sym c.clash.ensures ∙
    c.in_default-clash.is in
    (c.plans_without_a_fault_are_proper.ensures net c.in_ok-table.ensures.network rows).0 (fault-none net rows good (sym (same-missing net rows table is) ∙
    all) (sym (same-clash net rows table c.in_ok-table.ensures.network is) ∙ none))
