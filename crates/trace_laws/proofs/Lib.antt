mod BadLines
