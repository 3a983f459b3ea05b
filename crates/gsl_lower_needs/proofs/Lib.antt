mod StmtSteps
mod Steps
mod Turns
