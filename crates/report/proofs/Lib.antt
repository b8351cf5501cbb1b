mod Loops
mod ReportLines
mod StatisticsLines
mod Parts
