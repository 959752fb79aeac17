-- A line is LineLaws.line_at, over line_start's and read_line's contracts; a remark LineLaws.remark_at.
use mathlib.Core.Path.{subst}
use Rattle.conf_lines.specs.Scan.{Started}
use Rattle.conf_read.proofs.LineLaws.{line_at, remark_at}
use Rattle.conf_read.proofs.survey.line_at.Goals as goal

pub returns-in-Line : goal.returns-in-Line
returns-in-Line c =
    let a = c.args in
    let b = subst (Started a.text.now a.c) c.in-Line.is c.line_start.ensures in
    line_at a.text.now a.c _ _ c.requires b c.read_line.ensures

pub returns-in-Remark : goal.returns-in-Remark
returns-in-Remark c =
    let a = c.args in
    let k = subst (Started a.text.now a.c) c.in-Remark.is c.line_start.ensures in
    remark_at a.text.now a.c _ c.requires k
