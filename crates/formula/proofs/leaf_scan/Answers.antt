-- `leaf_scan`: the answer computes at each leaf; at a variable, one law of `Scans`. Assumes nothing.
use Rattle.std.proofs.Common.{◌∙◌, sym}
use Rattle.mucalculus.specs.Form.{bound, mentioned, lacks}
use Rattle.formula.specs.Scans.{mask}
use Rattle.formula.proofs.Scans.{scan_leaf}
use Rattle.formula.proofs.leaf_scan.Goals as goal

pub returns-in-Var : goal.returns-in-Var
returns-in-Var c =
    scan_leaf _ _ c.requires c.in-Var.is c.has.ensures c.single.ensures

pub returns-in-False : goal.returns-in-False
unfolding bound mentioned lacks mask
returns-in-False c =
    rw c.in-False.is c.closed_leaf.ensures

pub returns-in-True : goal.returns-in-True
unfolding bound mentioned lacks mask
returns-in-True c =
    rw c.in-True.is c.closed_leaf-in-True.ensures

pub returns-in-Now : goal.returns-in-Now
unfolding bound mentioned lacks mask
returns-in-Now c =
    rw c.in-Now.is c.closed_leaf-in-Now.ensures

pub returns-in-Next : goal.returns-in-Next
unfolding bound mentioned lacks mask
returns-in-Next c =
    rw c.in-Next.is c.closed_leaf-in-Next.ensures

pub returns-in-Reg : goal.returns-in-Reg
unfolding bound mentioned lacks mask
returns-in-Reg c =
    rw c.in-Reg.is c.closed_leaf-in-Reg.ensures
